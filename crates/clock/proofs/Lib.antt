mod Days
mod Digits
mod Times
mod Texts
