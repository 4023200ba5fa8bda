use Rattle.std.proofs.lemmas.Bool.{false≢true}
use Rattle.std.proofs.Common.{rules, ℕ, List, ◌≡◌, ◌+◌, ◌<◌, map, get_or, length, sym, ap, ◌∙◌, refl, arith}
use Rattle.std.specs.List.{range_with_len}
use Rattle.std.proofs.lemmas.List.{ext_get_or, get_or-map, length-map}
use Rattle.std.proofs.lemmas.List.FromFn.{get_or-range_with_len, length-range_with_len}
use Rattle.recovery_base.specs.declared.below.ids.IssuedCid.{IssuedCid}
use Rattle.quic_recovery.proofs.driver.ids.go_on.Goals as goal

-- the number at a position of consecutive IDs
number_at : (first i : ℕ) (ids : List IssuedCid) (other : IssuedCid) → i < length ids
    → map (λ id. id.sequence) ids ≡ range_with_len first (length ids) → (get_or ids i other).sequence ≡ first + i
number_at first i ids other inside run =
    sym (get_or-map (λ id. id.sequence) ids i other 0 inside) ∙ ap (λ (ns : List ℕ). get_or ns i 0) run
    ∙ get_or-range_with_len first (length ids) i 0 inside

numbers_go_on : (first : ℕ) (ids : List IssuedCid)
    → ((i : ℕ) → i < length ids → get_or (map (λ id. id.sequence) ids) i 0 ≡ first + i)
    → map (λ id. id.sequence) ids ≡ range_with_len first (length ids)
numbers_go_on first ids each =
    let long = length-map ids (λ (id : IssuedCid). id.sequence) in
    ext_get_or 0 (map (λ id. id.sequence) ids) (range_with_len first (length ids)) (long
    ∙ sym (length-range_with_len first (length ids)))
    (λ i inside. let within : i < length ids = omega (arith, inside, long) in each i within
    ∙ sym (get_or-range_with_len first (length ids) i 0 within))

pub returns-then-id-next : goal.returns-then-id-next
returns-then-id-next c = (
  λ holds. absurd (false≢true holds),
  λ run.
      let here = ap (λ (id : IssuedCid). id.sequence) c.id-item.is
      ∙ number_at c.args.first c.loop-id.id-index c.args.ids.now c.id-item.result c.loop-id-test.true run in
      absurd (c.if-id-next.true (here ∙ sym c.loop-id.invariant.next)),
)

pub loop-id-preserved : goal.loop-id-preserved
loop-id-preserved c = record {
  next = let next = c.loop-id.invariant.next in omega (arith, next);
  run = λ i below.
      let before : i < c.loop-id.id-index → get_or (map (λ id. id.sequence) c.args.ids.now) i 0 ≡ c.args.first + i =
      c.loop-id.invariant.run i in
      let here : get_or (map (λ id. id.sequence) c.args.ids.now) c.loop-id.id-index 0 ≡ c.args.first
      + c.loop-id.id-index =
      get_or-map (λ id. id.sequence) c.args.ids.now c.loop-id.id-index c.id-item.result 0 c.loop-id-test.true
      ∙ ap (λ (id : IssuedCid). id.sequence) (sym c.id-item.is) ∙ c.if-id-next.false ∙ c.loop-id.invariant.next in
      grind (arith, before, here, below);
}

pub returns : goal.returns
returns c =
    let ends : c.loop-id.id-index ≡ length c.args.ids.now = search rules in
    let all = numbers_go_on c.args.first c.args.ids.now
    (λ i below. c.loop-id.invariant.run i (omega (arith, ends, below))) in
    (λ _. all, λ _. refl)
