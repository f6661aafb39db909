-- The tokens of a source stand in it, in order.
use Rattle.std.proofs.Common.{ℕ, List, ◌≡◌, sym, subst, All}
use Rattle.aqe_lexer.specs.declared.token.Token.{Token}
use Rattle.aqe_lexer.specs.Spans.{StandsIn, InOrder}
use Rattle.aqe_lexer.specs.TokenList.{IsTokenList}
use Rattle.aqe_lexer.proofs.Stands.{list_stands, list_in_order}

pub stand_in : {a b : List ℕ} {ts us : List Token} → IsTokenList a ts → b ≡ a → us ≡ ts → All (StandsIn b) us
stand_in {a = a} {b = b} {ts = ts} t e f =
    subst (λ (x : List Token). All (StandsIn b) x) (sym f) (subst (λ (s : List ℕ). All (StandsIn s) ts) (sym e) (list_stands a ts t))

pub in_order : {a : List ℕ} {ts us : List Token} → IsTokenList a ts → us ≡ ts → InOrder 0 us
in_order {a = a} {ts = ts} t f = subst (λ (x : List Token). InOrder 0 x) (sym f) (list_in_order a ts t)
