pub mod EachHasText
