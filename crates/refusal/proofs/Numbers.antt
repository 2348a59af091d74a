-- Lemmas. No refusal has the number 0, so an answer of 0 is of a call that was not refused. Assumes nothing.
use Rattle.std.proofs.Common.{ℕ, ◌<◌, ◌≡◌, lit<, arith, Result, Ok, Err}
use Rattle.refusal.specs.declared.Refusal.{Refusal}
use Rattle.refusal.specs.declared.Refusal.TheVariants.{SheetHeader, SheetSurface, SheetPatch, Physics, Ball, AirDensity, Landing, ListLength, Pin}
use Rattle.refusal.specs.declared.Refusal.TheVariants.{EntrySpot, HeightSpot, InputLength}
use Rattle.refusal.specs.declared.Refusal.TheVariants.{ContactsFull, PointsFull, OutOfRange, StepLimit, BayUsed, ShotEntered, NoEntry, PageLength, Bay}
use Rattle.refusal.specs.declared.Refusal.TheVariants.{Name, ShelfFull, NotKept}
use Rattle.refusal.specs.declared.Refusal.TheVariants.{Aim, Times, Tolerance, MarksLength, LentLength, NotHeld, NoTermination}
use Rattle.refusal.specs.Refusal.{number_of, answer_by}

pub above_0 : (r : Refusal) → 0 < number_of r
above_0 SheetHeader = lit< tt
above_0 SheetSurface = lit< tt
above_0 SheetPatch = lit< tt
above_0 Physics = lit< tt
above_0 Ball = lit< tt
above_0 AirDensity = lit< tt
above_0 Landing = lit< tt
above_0 ListLength = lit< tt
above_0 Pin = lit< tt
above_0 EntrySpot = lit< tt
above_0 HeightSpot = lit< tt
above_0 InputLength = lit< tt
above_0 ContactsFull = lit< tt
above_0 PointsFull = lit< tt
above_0 OutOfRange = lit< tt
above_0 StepLimit = lit< tt
above_0 BayUsed = lit< tt
above_0 ShotEntered = lit< tt
above_0 NoEntry = lit< tt
above_0 PageLength = lit< tt
above_0 Bay = lit< tt
above_0 Name = lit< tt
above_0 ShelfFull = lit< tt
above_0 NotKept = lit< tt
above_0 Aim = lit< tt
above_0 Times = lit< tt
above_0 Tolerance = lit< tt
above_0 MarksLength = lit< tt
above_0 LentLength = lit< tt
above_0 NotHeld = lit< tt
above_0 NoTermination = lit< tt

pub never_0 : (r : Refusal) → number_of r ≡ 0 → ⊥
never_0 r e = let h = above_0 r in omega arith
