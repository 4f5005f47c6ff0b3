-- Laws of wire's definitions, in reading order.
pub mod ChoiceLaws
pub mod NumbersLaws
pub mod PartsLaws
pub mod LayoutLaws
pub mod BytesLaws
pub mod FormUnique
pub mod WithinLaws
