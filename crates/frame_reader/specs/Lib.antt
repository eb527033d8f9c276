pub mod Unpacked
