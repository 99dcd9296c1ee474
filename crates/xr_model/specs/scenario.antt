-- Which texts are scenarios: names, fields, lists, the rows of ops, scripts, and the whole; and the scenario of a load.
pub mod Names
pub mod Fields
pub mod ListItems
pub mod ReadOp
pub mod Row
pub mod OpRows
pub mod OpReading
pub mod InRange
pub mod ScriptForm
pub mod Scenario
pub mod LoadScenario
