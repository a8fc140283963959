-- What private functions write of a ROUTE-REFRESH.
use Rattle.std.specs.Prelude.{◌≡◌, ℕ, Result, Ok, Err}
use Rattle.bgp_refresh.specs.Prelude.{Refresh}
use Rattle.ristulva_c.specs.declared.refresh.ToldRefresh.{ToldRefresh}
use Rattle.ristulva_c.specs.declared.status.TheConstants.{OK}
use Rattle.ristulva_c.specs.Refresh.{refresh_told}

abbrev pub IsSaid : Result Refresh ℕ → ℕ → ToldRefresh → ToldRefresh → Type 0
IsSaid (Ok r) status before behind = (status ≡ OK) × (behind ≡ refresh_told r)
IsSaid (Err answer) status before behind = (status ≡ answer) × (behind ≡ before)
