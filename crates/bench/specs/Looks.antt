-- Statements. Every look of two short shots, in order, in air and without: the definition's list is the one that the Rust makes through `sample`, with
-- the look before each push of a point (02, paper 12) among them (compare/data/looks.txt, whose inputs these are).
use Rattle.std.specs.Prelude.{ℕ, ◌*◌, ◌≡◌, refl, false, List, [], ◌∷◌, replicate, Float}
use Rattle.std.specs.Float.{binary64}
use Rattle.std.specs.Float.Ieee.{of_bits, neg}
use Rattle.number.specs.Ops.{dec}
use Rattle.vector.specs.Vec.{vec, zero3}
use Rattle.state.specs.declared.BallState.{BallState}
use Rattle.surface.specs.declared.Restitution.{Restitution}
use Rattle.surface.specs.declared.RollLaw.{RollLaw}
use Rattle.surface.specs.declared.Surface.{Surface}
use Rattle.aero.specs.Aero.{tour}
use Rattle.look.specs.Tree.{Spot}
use Rattle.tally.specs.Language.{point_width, contact_width}
use Rattle.shot.specs.declared.GroundPhysics.{GroundPhysics}
use Rattle.shot.specs.declared.Shot.{Shot}
use Rattle.ground.specs.Settle.{looks_of}
use Rattle.bench.specs.Definitions.{definitions}
use Rattle.bench.specs.Given.{sheet_of}

-- ---- the shots

abbrev pub physics : GroundPhysics
physics =
    record {
      dt = dec 1 100;
      stop_speed = dec 1 100;
      roll_threshold = dec 1 100;
      min_hop_height = dec 4 10000;
      max_impacts = 64;
      max_time = dec 4 100;
    }

abbrev pub surface : Surface
surface = record {
  restitution = Restitution.Constant (dec 35 100);
  mu_slide = dec 40 100;
  mu_roll = dec 55 1000;
  roll_law = RollLaw.Quadratic (dec 25 10);
  compliance = dec 0 1;
  pivot = dec 1 1000;
}

abbrev pub landing : BallState
landing = record { time = dec 0 1; pos = zero3; vel = vec (dec 1 1) (neg (dec 32 100)) (dec 5 10); spin = vec (dec 0 1) (dec 5 1) (dec 20 1) }

abbrev shot : Float → Shot
shot density = record { physics = physics; step_limit = 100; ball = tour; air_density = density; landing = landing; fading = false }

-- the looks at this density, with 64 contacts and 640 points lent
abbrev looks_in : Float → List Spot
looks_in density = looks_of (sheet_of surface) (shot density) (replicate (64 * contact_width) (dec 0 1)) (replicate (640 * point_width) (dec 0 1))

-- ---- the looks

-- the spot of these bits, x and z
abbrev spot : ℕ → ℕ → Spot
spot x z = record { x = of_bits binary64 x; z = of_bits binary64 z }

-- density 1.225: 38 looks in 5 steps
abbrev looks_air : List Spot
looks_air =
    spot 0 0
    ∷ spot 0 0
    ∷ spot 0x3f81_23c5_2ca0_15da 0x3f72_235e_77b4_7cfb
    ∷ spot 0 0
    ∷ spot 0x3f51_23e1_3a9e_a115 0x3f42_2393_a7fe_42a0
    ∷ spot 0x3f61_23dd_3a30_cbf7 0x3f52_238c_31fa_e582
    ∷ spot 0x3f69_b5c5_d5db_7775 0x3f5b_3547_085d_6d09
    ∷ spot 0x3f71_23d5_37c3_2c1a 0x3f62_237d_22c8_6c2a
    ∷ spot 0x3f75_6cc5_8334_39b1 0x3f66_ac52_ebff_a3e8
    ∷ spot 0x3f79_b5b3_ccdc_6718 0x3f6b_3524_d709_6dfa
    ∷ spot 0x3f7d_fea0_1457_36eb 0x3f6f_bdf2_db1a_da99
    ∷ spot 0x3f81_23c5_2ca0_15da 0x3f72_235e_77b4_7cfb
    ∷ spot 0x3f91_23a4_f03c_3bc4 0x3f82_231f_1cc1_3782
    ∷ spot 0x3f81_23c5_2ca0_15da 0x3f72_235e_77b4_7cfb
    ∷ spot 0x3f83_4839_4d86_ae03 0x3f74_67c1_85fe_c54e
    ∷ spot 0x3f85_6cac_6c69_ba4c 0x3f76_ac22_9506_63ee
    ∷ spot 0x3f87_911e_88cd_eca7 0x3f78_f081_a145_be8c
    ∷ spot 0x3f89_b58f_a237_f704 0x3f7b_34de_a737_3adc
    ∷ spot 0x3f8b_d9ff_b82c_8b58 0x3f7d_7939_a355_3e8e
    ∷ spot 0x3f8d_fe6e_ca30_5b92 0x3f7f_bd92_921a_2f5b
    ∷ spot 0x3f90_116e_6be4_0cd4 0x3f81_00f4_b800_397a
    ∷ spot 0x3f91_23a4_f03c_3bc4 0x3f82_231f_1cc1_3782
    ∷ spot 0x3f99_b546_936a_0d54 0x3f8b_344c_0ea6_beac
    ∷ spot 0x3f91_23a4_f03c_3bc4 0x3f82_231f_1cc1_3782
    ∷ spot 0x3f92_35da_f1dc_ecba 0x3f83_4548_75a8_583e
    ∷ spot 0x3f93_4810_706e_0b43 0x3f84_6770_c11e_ef94
    ∷ spot 0x3f94_5a45_6b93_8678 0x3f85_8997_fd7b_c482
    ∷ spot 0x3f99_b546_936a_0d54 0x3f8b_344c_0ea6_beac
    ∷ spot 0x3f93_91ef_b21a_84c1 0x3f84_b59b_d515_16bb
    ∷ spot 0x3f93_91ed_d7eb_3903 0x3f84_b599_df52_29b7
    ∷ spot 0x3f93_91ed_dee8_f8bb 0x3f84_b599_e6b7_ff16
    ∷ spot 0x3f93_91ed_dee8_f8bb 0x3f84_b599_e6b7_ff16
    ∷ spot 0x3f93_91ed_dee8_f8bb 0x3f84_b599_e6b7_ff16
    ∷ spot 0x3f93_91ed_dee8_f8bb 0x3f84_b599_e6b7_ff16
    ∷ spot 0x3f9b_5d73_41da_83d5 0x3f8d_3bfd_156f_9ee9
    ∷ spot 0x3f9b_5d73_41da_83d5 0x3f8d_3bfd_156f_9ee9
    ∷ spot 0x3fa0_5b9e_e04f_350f 0x3f91_96be_9df8_281f
    ∷ spot 0x3fa0_5b9e_e04f_350f 0x3f91_96be_9df8_281f
    ∷ []

pub same_looks_air : looks_in (dec 1225 1000) ≡ looks_air
unfolding definitions
same_looks_air = refl

-- density 0: 36 looks in 5 steps
abbrev looks_no_air : List Spot
looks_no_air =
    spot 0 0
    ∷ spot 0 0
    ∷ spot 0x3f81_23e5_3a86_79a9 0x3f72_239b_1248_6007
    ∷ spot 0 0
    ∷ spot 0x3f51_23e5_3a86_79a9 0x3f42_239b_1248_6007
    ∷ spot 0x3f61_23e5_3a86_79a9 0x3f52_239b_1248_6007
    ∷ spot 0x3f69_b5d7_d7c9_b67d 0x3f5b_3568_9b6c_900a
    ∷ spot 0x3f71_23e5_3a86_79a9 0x3f62_239b_1248_6007
    ∷ spot 0x3f75_6cde_8928_1814 0x3f66_ac81_d6da_7809
    ∷ spot 0x3f79_b5d7_d7c9_b67d 0x3f6b_3568_9b6c_900a
    ∷ spot 0x3f7d_fed1_266b_54e8 0x3f6f_be4f_5ffe_a80d
    ∷ spot 0x3f81_23e5_3a86_79a9 0x3f72_239b_1248_6007
    ∷ spot 0x3f91_23e5_3a86_79a9 0x3f82_239b_1248_6007
    ∷ spot 0x3f81_23e5_3a86_79a9 0x3f72_239b_1248_6007
    ∷ spot 0x3f83_4861_e1d7_48de 0x3f74_680e_7491_6c08
    ∷ spot 0x3f85_6cde_8928_1813 0x3f76_ac81_d6da_7809
    ∷ spot 0x3f87_915b_3078_e748 0x3f78_f0f5_3923_840a
    ∷ spot 0x3f89_b5d7_d7c9_b67e 0x3f7b_3568_9b6c_900a
    ∷ spot 0x3f8b_da54_7f1a_85b3 0x3f7d_79db_fdb5_9c0c
    ∷ spot 0x3f8d_fed1_266b_54e8 0x3f7f_be4f_5ffe_a80c
    ∷ spot 0x3f90_11a6_e6de_120e 0x3f81_0161_6123_da07
    ∷ spot 0x3f91_23e5_3a86_79a9 0x3f82_239b_1248_6007
    ∷ spot 0x3f99_b5d7_d7c9_b67e 0x3f8b_3568_9b6c_900a
    ∷ spot 0x3f91_23e5_3a86_79a9 0x3f82_239b_1248_6007
    ∷ spot 0x3f92_3623_8e2e_e144 0x3f83_45d4_c36c_e607
    ∷ spot 0x3f93_4861_e1d7_48de 0x3f84_680e_7491_6c08
    ∷ spot 0x3f94_5aa0_357f_b079 0x3f85_8a48_25b5_f208
    ∷ spot 0x3f99_b5d7_d7c9_b67e 0x3f8b_3568_9b6c_900a
    ∷ spot 0x3f93_9356_4ab7_6c10 0x3f84_b761_1837_1a2a
    ∷ spot 0x3f93_9356_4ab7_6c10 0x3f84_b761_1837_1a2a
    ∷ spot 0x3f93_9356_4ab7_6c10 0x3f84_b761_1837_1a2a
    ∷ spot 0x3f93_9356_4ab7_6c10 0x3f84_b761_1837_1a2a
    ∷ spot 0x3f9b_5f24_1089_8e9c 0x3f8d_3e4c_aa5e_a4d5
    ∷ spot 0x3f9b_5f24_1089_8e9c 0x3f8d_3e4c_aa5e_a4d5
    ∷ spot 0x3fa0_5c1b_118b_7cbf 0x3f91_9791_cbfb_d301
    ∷ spot 0x3fa0_5c1b_118b_7cbf 0x3f91_9791_cbfb_d301
    ∷ []

pub same_looks_no_air : looks_in (dec 0 1) ≡ looks_no_air
unfolding definitions
same_looks_no_air = refl
