pub mod Offers
