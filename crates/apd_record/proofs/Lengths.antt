-- How long records are.
use Rattle.std.proofs.Common.{◌≡◌, ℕ, ◌+◌, ◌<◌, get_or, take, List, [], ◌∷◌, ◌++◌, length, refl, sym, ap, ◌∙◌, append_assoc}
use Rattle.std.proofs.lemmas.List.{append-nil, length-append, take_more}
use Rattle.apd_base.specs.declared.station.Station.{Station}
use Rattle.apd_base.specs.declared.station.Station.TheVariants.{Authenticated, Associated}
use Rattle.apd_record.specs.declared.change.Change.{Change}
use Rattle.apd_record.specs.Record.{station_bytes, record_of, records_of}

pub station_length : (station : Station) → length (station_bytes station) ≡ 7
station_length Authenticated = refl
station_length (Associated x) = refl

-- the records of changes, and then of others
pub records_of-append : (xs ys : List Change) → records_of (xs ++ ys) ≡ records_of xs ++ records_of ys
records_of-append [] ys = refl
records_of-append (x ∷ xs) ys = ap (λ bytes. record_of x ++ bytes) (records_of-append xs ys) ∙ sym (append_assoc (record_of x) (records_of xs) (records_of ys))

-- one record more at the end
pub records_of-push : (xs : List Change) (x : Change) → records_of (xs ++ x ∷ []) ≡ records_of xs ++ record_of x
records_of-push [] x = append-nil (record_of x)
records_of-push (y ∷ xs) x = ap (λ bytes. record_of y ++ bytes) (records_of-push xs x) ∙ sym (append_assoc (record_of y) (records_of xs) (record_of x))

-- the records of one change more
pub records_so_far : (xs : List Change) (i : ℕ) (d : Change) → i < length xs → records_of (take (i + 1) xs) ≡ records_of (take i xs) ++ record_of (get_or xs i d)
records_so_far xs i d lt = ap records_of (take_more xs i d lt) ∙ records_of-push (take i xs) (get_or xs i d)

pub records_length-append : (xs ys : List Change) → length (records_of (xs ++ ys)) ≡ length (records_of xs) + length (records_of ys)
records_length-append xs ys = ap length (records_of-append xs ys) ∙ length-append (records_of xs) (records_of ys)

pub records_length-push : (xs : List Change) (x : Change) → length (records_of (xs ++ x ∷ [])) ≡ length (records_of xs) + length (record_of x)
records_length-push xs x = ap length (records_of-push xs x) ∙ length-append (records_of xs) (record_of x)
