mod Laws
mod Left
