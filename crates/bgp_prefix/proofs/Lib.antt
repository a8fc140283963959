pub mod BitLemmas
pub mod PrefixLemmas
pub mod RunLemmas
pub mod LawLemmas
pub mod MaskLemmas
pub mod WrittenFronts
