pub mod Texts
pub mod Menus
pub mod Replies
pub mod Halls
pub mod HallFields
pub mod Sizes
pub mod Gopher
pub mod GopherLaws
