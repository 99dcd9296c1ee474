-- Which events a device's text has, and how an event is printed as a line of one.
pub mod DeviceLines
pub mod DeviceText
