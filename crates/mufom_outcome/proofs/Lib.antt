pub mod AddressLaws
pub mod TopicLaws
