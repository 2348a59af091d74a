pub mod AimInput
