pub mod PairLaws
pub mod ReadLaws
pub mod LaidLaws
pub mod HeadLaws
pub mod WriteLaws
pub mod RoundTrip
pub mod AskLaws
