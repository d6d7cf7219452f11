pub mod TestCauses
