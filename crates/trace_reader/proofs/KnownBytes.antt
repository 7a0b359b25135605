-- Known bytes, from call to call.
use Rattle.std.proofs.Common.{◌≡◌, ℕ, refl, sym, ◌∙◌, ap, List, [], ◌++◌, Option, Some, None}
use Rattle.std.proofs.lemmas.List.{append_assoc}
use Rattle.std.specs.Io.KnownBytes.{Keeps, Consumes, Appends, IsAtEnd, prepend_known}

pub keeps_none : (a : Option (List ℕ)) → Keeps a a
keeps_none None = tt
keeps_none (Some xs) = refl

pub keeps_both : (a b c : Option (List ℕ)) → Keeps a b → Keeps b c → Keeps a c
keeps_both None b c h k = tt
keeps_both (Some xs) None c h k = absurd h
keeps_both (Some xs) (Some ys) None h k = absurd k
keeps_both (Some xs) (Some ys) (Some zs) h k = k ∙ h

pub keeps_consumes : (a b c : Option (List ℕ)) (bs : List ℕ) → Keeps a b → Consumes b c bs → Consumes a c bs
keeps_consumes None b c bs h k = tt
keeps_consumes (Some xs) None c bs h k = absurd h
keeps_consumes (Some xs) (Some ys) None bs h k = absurd k
keeps_consumes (Some xs) (Some ys) (Some zs) bs h k = sym h ∙ k

pub consumes_both : (a b c : Option (List ℕ)) (xs ys : List ℕ)
    → Consumes a b xs
    → Consumes b c ys
    → Consumes a c (xs ++ ys)
consumes_both None b c xs ys h k = tt
consumes_both (Some all) None c xs ys h k = absurd h
consumes_both (Some all) (Some left) None xs ys h k = absurd k
consumes_both (Some all) (Some left) (Some last) xs ys h k = h ∙ ap (λ zs. xs ++ zs) k ∙ sym (rw append_assoc refl)

pub appends_both : (a b c : Option (List ℕ)) (xs ys : List ℕ) → Appends a b xs → Appends b c ys → Appends a c (xs ++ ys)
appends_both None b c xs ys h k = tt
appends_both (Some all) None c xs ys h k = absurd h
appends_both (Some all) (Some more) None xs ys h k = absurd k
appends_both (Some all) (Some more) (Some last) xs ys h k = k ∙ ap (λ zs. zs ++ ys) h ∙ rw append_assoc refl

pub consumes_none : (a : Option (List ℕ)) → Consumes a a []
consumes_none None = tt
consumes_none (Some xs) = refl

-- bytes held in front of others, of which some are given away
pub prepend_consumes : (rest : Option (List ℕ)) (before after bs : List ℕ)
    → before ≡ bs ++ after
    → Consumes (prepend_known before rest) (prepend_known after rest) bs
prepend_consumes None before after bs e = tt
prepend_consumes (Some xs) before after bs e = ap (λ ys. ys ++ xs) e ∙ rw append_assoc refl

-- nothing held, and nothing behind it
pub prepend_end : (rest : Option (List ℕ)) (before : List ℕ)
    → before ≡ []
    → IsAtEnd rest
    → IsAtEnd (prepend_known before rest)
prepend_end None before e h = tt
prepend_end (Some xs) before e h = rw (e, h) refl

pub consumes_keeps : (a b c : Option (List ℕ)) (bs : List ℕ) → Consumes a b bs → Keeps b c → Consumes a c bs
consumes_keeps None b c bs h k = tt
consumes_keeps (Some xs) None c bs h k = absurd h
consumes_keeps (Some xs) (Some ys) None bs h k = absurd k
consumes_keeps (Some xs) (Some ys) (Some zs) bs h k = h ∙ ap (λ ls. bs ++ ls) (sym k)
