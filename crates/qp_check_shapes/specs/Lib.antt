-- The definitions of the judge.
pub mod ShapeRelease
pub mod ShapeUnit
pub mod ShapeAssertion
pub mod ShapeAction
pub mod ShapePublication
pub mod ShapeFront
pub mod GroupsFirst
pub mod GroupsLast
pub mod GroupsRead
pub mod ObjectFirst
pub mod ObjectRead
