mod Setting
mod Equating
mod Rising
