-- What a run above names of the crates below.
pub use Rattle.qp_port_runs.specs.Handed.{WasSealedFor}
