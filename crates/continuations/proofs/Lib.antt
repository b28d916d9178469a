-- Laws of products in their place, and the lemmas of the functions' proofs.
pub mod PrefixSteps
pub mod FormLaws
pub mod WidenSteps
pub mod RoomLaws
pub mod PlaceLaws
pub mod PlaceSteps
pub mod ExchangeLaws
pub mod ExchangeSteps
