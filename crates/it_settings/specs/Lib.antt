pub mod App
pub mod ErrorKinds
pub mod Settings
pub mod ValuesViews
pub mod Rows
