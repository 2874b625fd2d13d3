-- Which authentication algorithms a BSSID takes (IEEE Std 802.11-2016, 9.4.1.1).
use Rattle.std.specs.Prelude.{ℕ, Bool, ◌%◌, ◌==◌}
use Rattle.apd_conf.specs.declared.auth_algs.AuthAlgs.{AuthAlgs}
use Rattle.apd_conf.specs.declared.auth_algs.AuthAlgs.TheVariants.{Open, Shared, OpenAndShared}

-- the number of a value of `auth_algs`
abbrev pub algs_number : AuthAlgs → ℕ
algs_number Open = 1
algs_number Shared = 2
algs_number OpenAndShared = 3

-- whether Open System authentication is among them: bit 0
abbrev pub allows_open : AuthAlgs → Bool
allows_open algs = algs_number algs % 2 == 1
