mod PassLemmas
mod MinutesLemmas
mod BaysLemmas
mod AccountLemmas
mod ColumnsLemmas
mod TextLemmas
mod OutcomeLemmas
mod InputLemmas
