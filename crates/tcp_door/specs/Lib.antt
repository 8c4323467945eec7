pub mod Tcp
