mod Telling
mod Scripting
mod Lengths
mod Playing
