mod Queens
mod FileReads
mod InfoOutput
mod MadeLemmas
mod CheckOutput
mod Written
