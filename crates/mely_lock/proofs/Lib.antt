mod SeenLemmas
mod ListsLemmas
mod ClaimsLemmas
mod KeepsLemmas
mod CallsLemmas
