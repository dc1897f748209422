-- The number of a refused opening is its refusal's, and no refusal has the number 0,
-- so an opening has the number 0 just where its answer is no error.
use mathlib.Core.Path.{◌≡◌, refl}
use mathlib.Core.Bool.{false, not}
use mathlib.Core.List.{List}
use Prim.Native.Nat.{ℕ, ◌+◌, ◌*◌, ◌<◌}
use native.Mathlib.Omega.{arith}
use borrow.Author.Tests.{ne_eqb}
use Rattle.std.specs.Prelude.{Result, Ok, Err, eqb, is_err}
use Rattle.machine.specs.View.{number, number_some}
use Rattle.turns.specs.Open.{opening_of, open_answer, Opens}
use Rattle.turns.specs.declared.open.Opened.{Opened}
use Rattle.turns.specs.declared.open.OpenRefusal.{OpenRefusal}
use Rattle.turns.specs.declared.open.OpenRefusal.TheVariants.{WrongTable, Paper}
use Rattle.garvolish.specs.Numbers.{packed}

packed_some : (n field place : ℕ) → 0 < n → eqb (packed (n, field, place)) 0 ≡ false
packed_some n field place l = ne_eqb (n + 256 * field + 65536 * place) 0 (λ (e : n + 256 * field + 65536 * place ≡ 0). absurd (omega (arith, l, e)))

none_refused : {T : Type 0} (a : Result T OpenRefusal) → eqb (packed (opening_of a)) 0 ≡ not (is_err a)
unfolding opening_of
none_refused (Ok t) = refl
none_refused (Err WrongTable) = refl
none_refused (Err (Paper e)) = packed_some (number e.fault) e.field.0 e.place.0 (number_some e.fault)

pub opened_unless : {start paper : List ℕ} {o : Opened} → Opens start paper o → eqb (packed (open_answer start paper)) 0 ≡ not (is_err o.answer)
opened_unless {o = o} opens = rw (← opens.answer) (none_refused o.answer)
