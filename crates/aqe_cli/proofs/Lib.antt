pub mod HeadlineFacts
