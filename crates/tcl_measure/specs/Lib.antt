pub mod SoundModulus
