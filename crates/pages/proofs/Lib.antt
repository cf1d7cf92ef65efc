mod Parts
mod Turning
mod Whole
mod Answers
mod Cut
