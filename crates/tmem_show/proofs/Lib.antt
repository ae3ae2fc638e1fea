mod Failed
mod Placed
