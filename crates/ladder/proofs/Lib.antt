mod Keeping
mod Merging
mod Owning
mod Queueing
