pub mod ResultText
