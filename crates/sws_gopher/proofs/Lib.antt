mod MenuLemmas
mod ItemLemmas
mod HallLemmas
mod KeyLemmas
mod ReplyLemmas
mod CutLemmas
