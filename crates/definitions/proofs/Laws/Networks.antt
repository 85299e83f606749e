-- Laws about metastates, limits, network text and the build program.
pub mod Metastates
pub mod Limits
pub mod NetworkLines
pub mod NetworkTexts
pub mod KnownNetworks
pub mod RoundTrips
pub mod Program
