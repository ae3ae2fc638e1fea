pub mod Accounts
pub mod Counting
pub mod Printed
pub mod Transactions
pub mod Works
