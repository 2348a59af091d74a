-- Definitions. The numbers of the refusals, as 01 and 02 give them, and what a call answers: 0, or its refusal's number.
use Rattle.std.specs.Prelude.{ℕ, Result, Ok, Err}
use Rattle.refusal.specs.declared.Refusal.{Refusal}
use Rattle.refusal.specs.declared.Refusal.TheVariants.{SheetHeader, SheetSurface, SheetPatch, Physics, Ball, AirDensity, Landing, ListLength, Pin, EntrySpot, HeightSpot, InputLength}
use Rattle.refusal.specs.declared.Refusal.TheVariants.{ContactsFull, PointsFull, OutOfRange, StepLimit, BayUsed, ShotEntered, NoEntry, PageLength, Bay, Name, ShelfFull, NotKept}
use Rattle.refusal.specs.declared.Refusal.TheVariants.{Aim, Times, Tolerance, MarksLength, LentLength, NotHeld, NoTermination}

abbrev pub number_of : Refusal → ℕ
number_of SheetHeader = 1
number_of SheetSurface = 2
number_of SheetPatch = 3
number_of Physics = 4
number_of Ball = 5
number_of AirDensity = 6
number_of Landing = 7
number_of ListLength = 8
number_of Pin = 9
number_of EntrySpot = 10
number_of HeightSpot = 11
number_of InputLength = 12
number_of ContactsFull = 20
number_of PointsFull = 21
number_of OutOfRange = 22
number_of StepLimit = 23
number_of BayUsed = 24
number_of ShotEntered = 25
number_of NoEntry = 26
number_of PageLength = 30
number_of Bay = 31
number_of Name = 32
number_of ShelfFull = 33
number_of NotKept = 34
number_of Aim = 35
number_of Times = 39
number_of Tolerance = 40
number_of MarksLength = 41
number_of LentLength = 100
number_of NotHeld = 101
number_of NoTermination = 102

abbrev pub answer_by : {A : Type 0} → Result A Refusal → ℕ
answer_by (Ok a) = 0
answer_by (Err r) = number_of r
