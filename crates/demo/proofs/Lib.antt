mod CellSums
mod FactorTerms
mod TermTrees
mod OriginFactors
mod NearRoots
pub mod DemoJobs
mod OpenedPrecisions
mod RaisedSteps
mod RaisedNumbers
mod ToldTexts
mod CountSteps
mod TextSteps
mod TreeSteps
mod AddedNames
mod MadeNumbers
