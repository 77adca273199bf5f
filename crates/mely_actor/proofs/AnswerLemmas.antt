-- What is known of an answer that is no error, and of one.
use Rattle.std.proofs.Common.{◌≡◌, true, false}
use Rattle.std.specs.Prelude.{Result, Ok, Err, OnErr, OnOk}
use Rattle.std.specs.Result.{is_ok}

pub of_ok : {A E : Type 0} (P : Type 0) (answer : Result A E) → true ≡ is_ok answer → OnOk answer P → P
of_ok P (Ok a) well is = is
of_ok P (Err e) well is = cc

pub of_err : {A E : Type 0} (P : Type 0) (answer : Result A E) → false ≡ is_ok answer → OnErr answer P → P
of_err P (Ok a) ill is = cc
of_err P (Err e) ill is = is
