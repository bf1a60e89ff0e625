pub mod TablesLemmas
pub mod RoutesLemmas
pub mod ConfigsLemmas
pub mod Servable
