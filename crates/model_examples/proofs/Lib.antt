mod AnswerExamples
mod BeginningExamples
mod CauseExamples
mod ChunkRefusals
mod DrainExamples
mod ErrorExamples
mod FloodExamples
mod FramesExamples
mod HeadlineExamples
mod HpackExamples
mod Http1Examples
mod Http2Examples
mod LayersExamples
mod LogExamples
mod OfferRefusals
mod Refusals
mod RequestRefusals
mod ResponseRefusals
mod RoomExamples
mod RowBlocks
mod RowTapes
mod SendingRefusals
mod ServingRefusals
mod SpellingLaws
mod SpellingRefusals
mod TrailerExamples
mod TurnRefusals
mod WindowExamples
pub mod KeepExamples
pub mod KeepAnswers
pub mod KeepRefusals
pub mod KeepMeets
pub mod KeepPool
pub mod IdleExamples
pub mod KeepRequests
pub mod KeepWindows
