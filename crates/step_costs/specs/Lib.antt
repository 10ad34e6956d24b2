pub mod NodeCosts
