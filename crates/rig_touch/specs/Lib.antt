-- what a reader has to believe: which operations an edit touches, which edits keep all operations and in-links, and the shape of a scene
pub mod Touch
pub mod KeepsLinks
pub mod Shape
-- a scene of the worked examples
pub mod Examples
-- what the proofs need. Two scenes that have in common all that an operation's value is made of give it the same value
pub mod Agree
pub mod SameNumbers
pub mod SameShown
pub mod SameDriven
pub mod SameKernel
-- lists that are filtered, mapped, or changed at one element
pub mod Listed
pub mod FirstChanged
-- scenes of which one object, the pencils, one layer or the drivers are changed, and what the operations of a scene name
pub mod OneObject
pub mod OtherPencils
pub mod ChangedLayer
pub mod OtherDrivers
pub mod NamesThere
-- the scenes before and after an edit of a pencil or an action have in common what it doesn't touch
pub mod AgreePencils
pub mod AgreePoints
pub mod AgreeActions
-- and so have those before and after an edit of a driver
pub mod AgreeDrivers
-- of an object's numbers, parent or modifiers
pub mod AgreeObjects
pub mod AgreeParent
pub mod AgreeStacks
pub mod AgreeValues
pub mod AgreePoses
pub mod AgreeObjectValues
-- and of an object that is added or removed
pub mod AgreeOthers
pub mod AgreeAdded
pub mod AgreeRemoved
-- the law
pub mod TouchedAlone
-- a scene has the operations and in-links of its shape, and an edit that keeps them leaves the shape
pub mod ShapeLinks
pub mod KeepsShape
