pub mod PipeRuns
