mod Places
mod Naming
mod Calls
mod Pumping
mod Jobs
mod Stays
mod Publishing
