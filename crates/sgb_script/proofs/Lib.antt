mod CommandLemmas
mod Digits
mod Names
mod WordSplits
mod Texts
