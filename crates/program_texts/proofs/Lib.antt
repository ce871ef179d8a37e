pub mod RefusalLemmas
pub mod EvalLemmas
pub mod TextLemmas
pub mod FormedLemmas
pub mod SettlingLemmas
pub mod CheckLemmas
pub mod CleanLemmas
