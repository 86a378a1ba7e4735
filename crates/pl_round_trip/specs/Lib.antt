pub mod RoundTrip
pub mod Fits
pub mod Returning
