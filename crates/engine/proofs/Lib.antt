mod Asking
mod Carrying
mod Fronting
mod Looping
mod Running
mod Settlement
