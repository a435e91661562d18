pub mod Pairable
