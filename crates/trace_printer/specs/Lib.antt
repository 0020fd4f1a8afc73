pub mod LoadText
