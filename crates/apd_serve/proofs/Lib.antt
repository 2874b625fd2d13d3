mod Giving
mod Working
