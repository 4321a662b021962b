-- What freezes: places, and which of them are the same.
use Rattle.std.specs.Prelude.{ℕ, ◌+◌, ◌*◌, ◌==◌, max, Bool, List, codes}
use Rattle.ccb.specs.declared.place.Place.{Place}
use Rattle.ccb.specs.declared.place.Place.TheVariants.{Controller, Device}

-- the number of a place, which no other has: even ones for the device queues, and odd ones for the controllers
abbrev pub index_of : Place → ℕ
index_of (Device queue) = 2 * queue.0
index_of (Controller controller) = 2 * controller + 1

-- its number among the places of its kind
abbrev pub number_of : Place → ℕ
number_of (Device queue) = queue.0
number_of (Controller controller) = controller

-- the word for its kind
abbrev pub kind_word : Place → List ℕ
kind_word (Device queue) = codes "queue"
kind_word (Controller controller) = codes "controller"

-- how many such numbers there are for so many queues and controllers
abbrev pub places_of : (queues controllers : ℕ) → ℕ
places_of queues controllers = 2 * max queues controllers

-- both are one place
abbrev pub is_place : Place → Place → Bool
is_place one other = index_of one == index_of other

-- the device queue of a number
abbrev pub device : ℕ → Place
device queue = Device (record { 0 = queue })
