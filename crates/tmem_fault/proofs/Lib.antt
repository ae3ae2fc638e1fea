pub mod AsStr
